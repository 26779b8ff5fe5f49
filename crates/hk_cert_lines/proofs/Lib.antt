pub mod Fitting
pub mod Indexing
