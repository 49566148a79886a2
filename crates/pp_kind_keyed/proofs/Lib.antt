pub mod Entries
pub mod Rule
pub mod Acting
pub mod Lawful
pub mod Gaps
