pub mod Spelled
pub mod SpelledCode
pub mod Endings
