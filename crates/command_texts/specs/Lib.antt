pub mod CheckLines
pub mod Program
pub mod CallsLines
pub mod CallsLaws
pub mod Calls
pub mod Says
