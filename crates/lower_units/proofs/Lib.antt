pub mod Arrays
pub mod Gathering
pub mod Making
pub mod Refusing
pub mod Searching
pub mod Telling
