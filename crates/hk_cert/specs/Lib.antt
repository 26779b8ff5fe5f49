pub mod Reading
pub mod States
pub mod Steps
