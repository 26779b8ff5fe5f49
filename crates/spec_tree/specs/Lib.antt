pub mod Plain
pub mod View
pub mod Sorted
pub mod Value
pub mod Shapes
pub mod Meaning
