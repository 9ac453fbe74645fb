pub mod Exact
pub mod Noted
