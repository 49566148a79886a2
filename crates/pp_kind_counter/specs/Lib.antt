pub mod Operations
pub mod Movers
pub mod Contexts
pub mod Count
pub mod Gaps
pub mod laws
