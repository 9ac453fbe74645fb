mod Deeds
mod Symbols
mod Steps
mod Runs
