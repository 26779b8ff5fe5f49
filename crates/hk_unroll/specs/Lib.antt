pub mod Copies
pub mod Arriving
pub mod Missing
pub mod Registers
pub mod Names
pub mod Renaming
pub mod Rebuilt
pub mod Refusals
