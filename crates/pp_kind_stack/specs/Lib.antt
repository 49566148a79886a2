pub mod Operations
pub mod Movers
pub mod Contexts
pub mod Stacks
pub mod Gaps
pub mod laws
