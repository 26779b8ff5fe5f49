pub mod NarrowLaws
