pub mod Print
pub mod PrintFiles
pub mod Laws
