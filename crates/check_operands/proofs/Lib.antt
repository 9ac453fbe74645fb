pub mod ByPlace
pub mod Enter
pub mod Merged
pub mod Symbols
pub mod TypeLists
pub mod Values
