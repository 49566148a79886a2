pub mod Operations
pub mod Movers
pub mod Contexts
pub mod KeyMap
pub mod laws
pub mod Gaps
