pub mod Grows
pub mod Halves
pub mod Places
pub mod Totals
pub mod Crosses
