pub mod Words
pub mod Unsigned
