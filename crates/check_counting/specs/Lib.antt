pub mod Checking
pub mod Sites
