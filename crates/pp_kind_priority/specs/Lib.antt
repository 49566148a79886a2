pub mod Values
pub mod Operations
pub mod Movers
pub mod Contexts
pub mod Prios
pub mod Copies
pub mod Gaps
pub mod laws
