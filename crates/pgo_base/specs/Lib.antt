pub mod Outside
pub mod Shelf
pub mod Fakes
pub mod Hash
