pub mod Right
pub mod SoFar
pub mod Opening
