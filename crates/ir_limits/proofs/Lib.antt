pub mod Firsts
pub mod Literals
pub mod OverLists
pub mod Sizes
