pub mod Gates
pub mod Reached
