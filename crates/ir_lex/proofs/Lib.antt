pub mod Fronts
pub mod KindFronts
pub mod NextSteps
pub mod Once
pub mod Ranks
pub mod Unlabelled
pub mod Cuts
