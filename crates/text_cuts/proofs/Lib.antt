pub mod Runs
pub mod Bytes
pub mod Only
pub mod Names
pub mod Labels
pub mod Longest
pub mod Meanings
pub mod Cuts
