pub mod Like
pub mod Agree
pub mod Registers
pub mod Frames
