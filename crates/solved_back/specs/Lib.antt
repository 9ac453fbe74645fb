pub mod SolvedBack
