pub mod Check
pub mod CheckFiles
pub mod Laws
