mod Sizes
pub mod FreshNames
pub mod GenFits
pub mod GenNames
pub mod GraphSize
pub mod HashSmall
pub mod Law
pub mod LimitsKept
pub mod Modules
pub mod Symbols
