pub mod Origins
pub mod Guarded
pub mod Sources
pub mod Reading
pub mod Rows
