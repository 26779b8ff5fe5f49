pub mod Reader
pub mod Fronts
pub mod Many
pub mod Numbers
pub mod Types
pub mod Operands
pub mod Lists
pub mod Laws
