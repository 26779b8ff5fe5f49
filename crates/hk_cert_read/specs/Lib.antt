pub mod Handling
pub mod Proving
pub mod Whole
pub mod Widths
