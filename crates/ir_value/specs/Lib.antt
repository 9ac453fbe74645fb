pub mod Integer
pub mod Operators
pub mod Examples
