pub mod Inputs
pub mod Order
pub mod Parts
pub mod Show
pub mod Reading
