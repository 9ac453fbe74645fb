pub mod Grown
pub mod Kept
pub mod PlainNames
pub mod PlanFits
pub mod Within
