pub mod Texts
pub mod Outputs
pub mod Costs
pub mod Laws
pub mod Taken
