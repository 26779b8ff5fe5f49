pub mod Seen
pub mod Tracks
pub mod Phis
pub mod Runs
