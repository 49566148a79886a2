pub mod Cuts
pub mod Grows
pub mod Given
pub mod Overruns
pub mod Reading
pub mod Skips
pub mod Joined
