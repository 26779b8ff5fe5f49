pub mod Adding
pub mod Forms
