pub mod Elaboration
pub mod Walk
pub mod Within
