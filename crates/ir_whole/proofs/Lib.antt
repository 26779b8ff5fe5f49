pub mod HeadLaws
pub mod Distinct
pub mod FactsOfTypes
pub mod KeptLaws
pub mod HeadInterning
pub mod RowLaws
pub mod NameNumbers
pub mod FieldLaws
