pub mod Blocks
pub mod Handlers
pub mod Shown
pub mod Words
