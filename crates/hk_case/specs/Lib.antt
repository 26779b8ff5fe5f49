pub mod Obligations
pub mod Violation
