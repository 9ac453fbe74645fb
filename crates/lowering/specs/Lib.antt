pub mod Asked
pub mod Lowered
pub mod Refusals
pub mod Units
