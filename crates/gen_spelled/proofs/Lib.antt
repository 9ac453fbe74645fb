mod Lists
mod Calls
mod Ways
mod Blocks
mod Notes
mod Modules
