pub mod Values
pub mod Operations
pub mod Movers
pub mod Contexts
pub mod Memories
pub mod laws
pub mod Gaps
