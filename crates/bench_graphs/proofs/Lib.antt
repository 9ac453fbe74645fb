pub mod Had
