pub mod Lexing
pub mod Cutting
pub mod Naming
pub mod Dropping
pub mod TypeLaws
pub mod SlotLaw
