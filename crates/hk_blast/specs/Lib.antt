pub mod Blasted
pub mod Parts
pub mod Walk
