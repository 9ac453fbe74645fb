pub mod Values
pub mod Instructions
pub mod Modules
pub mod Lines
pub mod Parts
pub mod Appends
pub mod Laws
