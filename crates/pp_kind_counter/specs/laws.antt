pub mod Legal
pub mod Turning
pub mod Reaching
pub mod Swapping
pub mod Lawful
