pub mod Combine
pub mod Inits
pub mod Parameters
pub mod Tops
pub mod TopView
pub mod Laws
