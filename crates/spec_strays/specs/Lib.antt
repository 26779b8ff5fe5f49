pub mod Reached
pub mod Search
pub mod Callers
pub mod Places
