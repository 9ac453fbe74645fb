mod Lists
mod HashSmall
mod Asks
mod Notes
mod Modules
