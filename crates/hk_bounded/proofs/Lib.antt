pub mod BoundedLaws
