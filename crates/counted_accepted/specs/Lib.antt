pub mod Few
pub mod Gen
