pub mod Rules
pub mod Rows
pub mod Views
pub mod Steps
pub mod Walks
pub mod Parted
pub mod NumberLemmas
