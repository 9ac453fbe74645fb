pub mod Edges
pub mod Ends
pub mod Fitting
pub mod Free
pub mod Law
pub mod Lookups
pub mod Named
pub mod Unreached
