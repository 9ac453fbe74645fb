mod Limits
mod Listed
mod Owned
mod Refused
