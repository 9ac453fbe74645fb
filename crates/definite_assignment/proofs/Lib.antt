mod Narrows
mod Opened
mod Small
mod Turns
