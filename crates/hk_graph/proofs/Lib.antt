pub mod Entering
pub mod Joining
pub mod Leaving
pub mod Stepping
