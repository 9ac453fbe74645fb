pub mod Listed
pub mod Holders
pub mod Data
pub mod Tallies
