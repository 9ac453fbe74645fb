pub mod Ends
pub mod Numbered
pub mod OnEdges
pub mod Planned
pub mod Tables
