pub mod Few
pub mod Finding
pub mod Groups
pub mod Kept
pub mod Lowest
pub mod Once
