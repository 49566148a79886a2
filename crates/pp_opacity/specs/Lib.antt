pub mod Results
pub mod Costs
pub mod Trials
pub mod Attempts
pub mod Replays
