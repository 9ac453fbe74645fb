pub mod Places
pub mod Numbered
pub mod Made
pub mod Trees
pub mod Kept
