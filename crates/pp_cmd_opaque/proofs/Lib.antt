pub mod Keeping
pub mod Zombies
pub mod Searching
pub mod Reporting
pub mod Deciding
