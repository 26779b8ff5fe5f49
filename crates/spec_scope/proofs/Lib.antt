pub mod Tables
pub mod Powers
pub mod Inferring
