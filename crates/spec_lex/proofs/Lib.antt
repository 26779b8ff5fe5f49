pub mod Rows
pub mod Finding
pub mod RowLaws
pub mod LineLaws
pub mod FaultLaws
