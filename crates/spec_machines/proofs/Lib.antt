pub mod Many
pub mod Runs
pub mod Steps
pub mod Views
