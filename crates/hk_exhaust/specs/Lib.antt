pub mod Handlers
pub mod Enumeration
pub mod Answers
