pub mod Checks
pub mod Fitting
pub mod Keeping
pub mod Lines
pub mod Replays
pub mod Turns
