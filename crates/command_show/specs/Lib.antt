pub mod Show
pub mod ShowFiles
pub mod Laws
