pub mod Keys
pub mod Operations
pub mod Movers
pub mod Contexts
pub mod Sets
pub mod laws
pub mod Gaps
