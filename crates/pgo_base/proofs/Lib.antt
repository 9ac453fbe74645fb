pub mod ShelfLemmas
pub mod WriteLemmas
