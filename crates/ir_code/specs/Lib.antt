pub mod Named
pub mod Names
pub mod Symbols
pub mod Units
pub mod Resolved
pub mod Found
pub mod Images
pub mod Tallied
