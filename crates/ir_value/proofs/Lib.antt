pub mod WordLemmas
pub mod DivisionLemmas
