pub mod Widths
pub mod Entries
pub mod Keeping
pub mod Rows
