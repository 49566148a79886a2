pub mod Movers
pub mod Known
