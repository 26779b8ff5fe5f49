pub mod Fronts
pub mod Rowing
