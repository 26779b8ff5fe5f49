pub mod Raw
pub mod View
pub mod Depth
