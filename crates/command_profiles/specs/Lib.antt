pub mod ProfileLaws
pub mod ProfileText
pub mod Merging
pub mod Each
pub mod EachLaws
pub mod Says
