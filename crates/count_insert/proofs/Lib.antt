pub mod Queued
pub mod Turns
