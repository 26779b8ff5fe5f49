pub mod Cases
pub mod Uniform
pub mod GoalTruths
pub mod Telling
pub mod Asking
pub mod Under
