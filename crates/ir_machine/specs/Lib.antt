pub mod Steps
pub mod Slots
pub mod Counts
pub mod Turns
