pub mod Trees
pub mod Pushed
