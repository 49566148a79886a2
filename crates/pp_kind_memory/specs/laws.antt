pub mod Written
pub mod Acting
pub mod Lawful
