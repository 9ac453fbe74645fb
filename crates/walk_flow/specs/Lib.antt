pub mod Examples
pub mod Traversed
