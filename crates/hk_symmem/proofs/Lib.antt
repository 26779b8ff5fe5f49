pub mod Laws
pub mod Numbers
pub mod Picks
pub mod RowLaws
pub mod SourceLaws
pub mod StateLaws
pub mod Wholes
