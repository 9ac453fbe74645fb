pub mod Kept
pub mod Lists
pub mod Replaced
pub mod SplitFits
