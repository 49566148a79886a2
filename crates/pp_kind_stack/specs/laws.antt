pub mod Legal
pub mod Turning
pub mod Swapping
pub mod Lawful
