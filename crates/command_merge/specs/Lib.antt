pub mod Merge
pub mod MergeFiles
pub mod Laws
