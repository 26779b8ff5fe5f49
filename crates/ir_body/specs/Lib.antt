pub mod Words
pub mod Parts
pub mod Rows
pub mod LeftOut
pub mod Items
pub mod Laws
