pub mod Faults
pub mod Held
pub mod Memory
pub mod ShelfStates
pub mod Shown
pub mod SinkStates
pub mod SystemFaults
