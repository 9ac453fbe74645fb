pub mod Assigned
pub mod Chunks
pub mod Narrowing
pub mod Uses
