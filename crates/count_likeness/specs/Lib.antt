pub mod Fits
pub mod Formed
pub mod Image
