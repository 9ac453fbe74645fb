pub mod Moves
pub mod Asked
pub mod Exact
pub mod Filled
