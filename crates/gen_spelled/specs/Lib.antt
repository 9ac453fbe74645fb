pub mod GenSpelled
