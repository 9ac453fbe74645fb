pub mod Ranges
pub mod Rounds
pub mod Spreads
pub mod Turns
