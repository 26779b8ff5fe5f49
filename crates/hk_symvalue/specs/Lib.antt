pub mod Growth
pub mod Meaning
pub mod Rows
pub mod Indices
