pub mod Turns
pub mod Makes
