pub mod Calls
pub mod Counted
pub mod Stays
pub mod Ways
