pub mod Kernel
pub mod Room
