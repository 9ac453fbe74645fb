mod Asking
mod Listed
mod Placed
mod Plans
mod Rising
mod Spare
mod Units
