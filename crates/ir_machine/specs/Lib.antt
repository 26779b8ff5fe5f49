pub mod Values
pub mod Step
pub mod Popped
