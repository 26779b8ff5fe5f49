pub mod Heads
pub mod Kept
pub mod Numbers
pub mod Questions
