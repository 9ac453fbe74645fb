pub mod Objects
pub mod Passed
pub mod Sites
pub mod Tally
