pub mod Listed
pub mod Tuples
