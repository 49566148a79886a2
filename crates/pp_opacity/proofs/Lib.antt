pub mod Choices
pub mod Trials
pub mod Serials
pub mod Windows
pub mod Replays
pub mod Costs
pub mod Takes
pub mod Zombies
