pub mod Lines
pub mod Form
pub mod Meaning
pub mod Reading
pub mod Walk
pub mod Outcome
