pub mod Kept
pub mod Elements
pub mod Sizes
pub mod Reaching
pub mod Storing
pub mod Writing
