pub mod Settled
pub mod Committing
pub mod Blocked
pub mod Counting
pub mod Uncommitted
pub mod Nexts
pub mod Leaving
