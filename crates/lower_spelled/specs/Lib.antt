pub mod LowerSpelled
