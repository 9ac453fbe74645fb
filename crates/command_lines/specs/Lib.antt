pub mod Says
pub mod TextAt
