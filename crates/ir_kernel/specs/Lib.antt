pub mod Orders
pub mod Kernels
pub mod Answers
pub mod Runs
pub mod Typed
pub mod Steps
pub mod Passing
pub mod Ends
