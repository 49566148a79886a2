pub mod Blocking
pub mod Committing
pub mod Numbers
pub mod Uncommitted
