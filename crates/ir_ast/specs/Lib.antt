pub mod Plain
pub mod View
pub mod Table
pub mod Program
pub mod ProgramView
pub mod Small
