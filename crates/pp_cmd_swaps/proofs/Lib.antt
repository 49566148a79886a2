pub mod Logs
pub mod Targeting
pub mod Joining
pub mod Telling
pub mod Swapping
pub mod Accepting
pub mod Lengths
pub mod Rechecking
