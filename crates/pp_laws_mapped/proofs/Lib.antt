pub mod MappedLists
pub mod MappedConfigs
pub mod MappedSteps
pub mod Expanded
pub mod Runs
