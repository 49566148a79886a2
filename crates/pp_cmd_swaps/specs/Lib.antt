pub mod Swaps
pub mod Logs
pub mod Texts
pub mod Prints
