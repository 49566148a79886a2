pub mod Bits
pub mod Acting
pub mod Lawful
