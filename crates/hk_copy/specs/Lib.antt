pub mod Stands
pub mod Copies
pub mod Cost
pub mod Reach
pub mod Making
