pub mod Operands
pub mod Acts
pub mod Resolved
pub mod Locals
