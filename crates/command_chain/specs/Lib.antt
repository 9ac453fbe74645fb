pub mod Report
pub mod Counted
pub mod Chain
pub mod ChainFiles
pub mod Laws
