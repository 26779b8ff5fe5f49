pub mod Walks
pub mod Sorted
pub mod Search
pub mod Invariant
pub mod Follow
