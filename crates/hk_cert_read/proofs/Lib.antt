pub mod Exits
pub mod Following
pub mod Logging
pub mod Widening
