pub mod Decimal
pub mod Defining
pub mod Folds
pub mod Loops
pub mod Nesting
pub mod Places
pub mod Whole
