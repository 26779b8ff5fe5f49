pub mod Measures
pub mod Shaped
