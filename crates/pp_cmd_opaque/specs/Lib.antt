pub mod Texts
pub mod Outputs
pub mod Meanings
pub mod Bounds
pub mod Kept
