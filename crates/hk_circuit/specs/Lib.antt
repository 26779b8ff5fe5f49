pub mod Words
pub mod Frame
