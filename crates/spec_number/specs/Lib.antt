pub mod Scope
pub mod Evaluation
