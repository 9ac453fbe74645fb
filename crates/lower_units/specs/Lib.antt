pub mod Alone
pub mod Faults
pub mod Made
pub mod Shown
pub mod Table
pub mod Told
