mod Prefixes
pub mod Cutting
mod Rows
mod Heads
mod Trees
mod Finding
mod Results
mod Tallies
mod Texts
mod Putting
mod FieldTurns
mod Fitting
mod Least
mod Arranged
mod Exits
