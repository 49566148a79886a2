pub mod Operations
pub mod Movers
pub mod Contexts
pub mod Fifo
pub mod Gaps
pub mod laws
