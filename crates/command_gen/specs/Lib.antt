pub mod Gen
pub mod GenFiles
pub mod Laws
