pub mod Gives
pub mod Shows
pub mod Details
pub mod Runs
