pub mod Searches
pub mod Conflicts
