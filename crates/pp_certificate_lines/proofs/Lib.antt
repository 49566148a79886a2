pub mod Tidy
pub mod Back
pub mod Accepted
pub mod Parsed
pub mod Naming
pub mod Checkings
pub mod Entries
pub mod Takers
