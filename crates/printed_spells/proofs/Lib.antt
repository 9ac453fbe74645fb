pub mod ReadNames
pub mod Numbering
pub mod Collected
pub mod Assembly
pub mod Counting
pub mod Whole
