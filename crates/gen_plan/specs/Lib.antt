pub mod Countable
pub mod Examples
pub mod Fresh
pub mod Gen
pub mod GenImage
pub mod Placing
