pub mod Layout
pub mod CoreView
pub mod CoreState
pub mod CoreStep
pub mod Reaches
pub mod Play
pub mod StepLaws
