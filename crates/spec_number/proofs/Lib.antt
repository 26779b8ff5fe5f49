mod Fields
mod Walks
mod Loops
mod Paths
