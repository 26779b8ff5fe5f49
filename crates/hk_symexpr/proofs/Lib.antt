mod Frames
mod Suiting
pub mod Tuples
mod Leaves
mod Joins
mod Walks
