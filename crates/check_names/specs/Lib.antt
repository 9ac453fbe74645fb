pub mod Few
pub mod Outer
pub mod Seen
pub mod Scene
pub mod Told
