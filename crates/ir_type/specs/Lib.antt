pub mod Names
pub mod Whole
pub mod Rows
pub mod Items
pub mod Shape
pub mod Cycles
