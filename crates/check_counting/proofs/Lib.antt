pub mod Arguments
pub mod Firsts
pub mod Lengths
pub mod Literals
pub mod Parts
pub mod Variables
