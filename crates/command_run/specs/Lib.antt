pub mod Outcomes
pub mod Told
pub mod OnCalls
pub mod Run
pub mod RunFiles
pub mod OutcomeLaws
pub mod OnCallsLaws
pub mod Laws
