pub mod LowerLines
pub mod Lower
pub mod LowerFiles
pub mod Laws
