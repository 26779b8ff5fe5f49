pub mod Onward
pub mod Chains
pub mod Dominates
pub mod Total
pub mod Sums
