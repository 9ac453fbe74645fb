pub mod Counts
pub mod Ends
pub mod Nets
pub mod Solved
pub mod Weights
