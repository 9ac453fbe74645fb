pub mod LookUps
pub mod Phis
pub mod Rising
