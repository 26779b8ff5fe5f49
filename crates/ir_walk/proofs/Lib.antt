pub mod Comes
pub mod Acts
pub mod Through
pub mod Entries
pub mod Blocks
pub mod Weights
pub mod Runs
pub mod Done
