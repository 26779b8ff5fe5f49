pub mod Held
pub mod Files
pub mod Steps
