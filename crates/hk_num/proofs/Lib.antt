pub mod Algebra
pub mod Readings
pub mod Words
