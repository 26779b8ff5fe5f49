mod Swapped
pub mod Filled
mod Refused
mod Spelled
pub mod ArrivingLaws
pub mod MissingLaws
pub mod RegisterLaws
pub mod Reaching
pub mod NameLaws
