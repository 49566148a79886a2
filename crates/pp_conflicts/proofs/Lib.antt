pub mod Entries
pub mod Seen
pub mod Pulling
pub mod Pushing
pub mod Pushes
pub mod Records
pub mod Closing
pub mod Verdicts
