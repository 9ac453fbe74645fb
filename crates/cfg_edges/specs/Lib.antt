pub mod Blocks
pub mod Examples
pub mod Graph
pub mod Hash
pub mod Sought
