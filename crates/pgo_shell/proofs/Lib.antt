pub mod ReadLemmas
pub mod DeliverLemmas
pub mod LineLemmas
pub mod RunLemmas
pub mod PromiseLemmas
