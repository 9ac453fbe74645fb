pub mod GenLowered
