pub mod HeldLemmas
pub mod Prefixes
