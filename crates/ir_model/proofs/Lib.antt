pub mod Flow
pub mod Output
pub mod Worked
pub mod Selects
