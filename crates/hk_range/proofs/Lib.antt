pub mod RangeLaws
pub mod SplitLaws
pub mod SumLaws
pub mod ItemLaws
pub mod FormLaws
pub mod AnswerLaws
