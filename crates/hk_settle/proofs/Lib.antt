pub mod Stages
pub mod Refutations
pub mod Rising
