pub mod Ends
pub mod Flow
pub mod Places
pub mod Sums
pub mod Ways
