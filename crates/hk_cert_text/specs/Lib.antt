pub mod Certificate
pub mod Rows
