pub mod Flags
pub mod Searching
pub mod Calling
pub mod Straying
pub mod Placing
