pub mod Machine
pub mod Simulation
