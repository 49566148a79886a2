pub mod Marking
pub mod Places
pub mod Known
pub mod Searching
