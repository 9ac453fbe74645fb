pub mod Words
pub mod Values
pub mod Notes
pub mod Instructions
pub mod Canonical
pub mod Rows
