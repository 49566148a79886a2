pub mod Summarised
pub mod Asks
pub mod Searches
pub mod Violations
