pub mod InputLemmas
pub mod OrderLemmas
