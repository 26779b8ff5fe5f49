pub mod Bounds
pub mod Shaping
pub mod Offsets
