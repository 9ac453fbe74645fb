pub mod SiteLines
pub mod RunProfile
pub mod KeyLaws
