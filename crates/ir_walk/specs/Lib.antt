pub mod Walk
pub mod LoopFree
