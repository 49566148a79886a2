pub mod One
pub mod Objects
pub mod Calls
pub mod Parts
pub mod Pieces
pub mod Wraps
pub mod Gaps
pub mod laws
