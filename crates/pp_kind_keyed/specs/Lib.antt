pub mod Keys
pub mod Gaps
