pub mod Numbers
pub mod Pointers
pub mod Intrinsics
