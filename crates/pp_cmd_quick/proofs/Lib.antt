pub mod Readers
pub mod Starting
pub mod Judging
pub mod Concluding
pub mod Verdicts
pub mod Decided
