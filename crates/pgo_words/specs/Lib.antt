pub mod Parts
pub mod Numbers
pub mod Plan
pub mod Table
pub mod Values
pub mod CommandLine
