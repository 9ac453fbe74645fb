pub mod Exposed
pub mod Reads
pub mod Unready
