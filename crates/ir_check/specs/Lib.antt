pub use Rattle.ir_rules.specs.Accepted
pub use Rattle.ir_rules.specs.Kinds
pub mod Faults
pub mod Refused
