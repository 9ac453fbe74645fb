pub mod Decided
pub mod InBlocks
pub mod OneMore
pub mod Placed
