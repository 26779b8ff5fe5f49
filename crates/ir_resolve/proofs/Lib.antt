pub mod Moves
pub mod Flags
pub mod Written
pub mod Bodies
pub mod Codes
