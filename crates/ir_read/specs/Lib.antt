pub mod Ahead
pub mod Decoding
pub mod Items
pub mod Nests
pub mod Parts
pub mod Reads
pub mod Spelled
pub mod Table
