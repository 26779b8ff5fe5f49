pub mod Cells
pub mod Growth
pub mod Kept
pub mod Multiples
pub mod Parts
