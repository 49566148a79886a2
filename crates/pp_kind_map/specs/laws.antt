pub mod Rule
pub mod Acting
pub mod Lawful
