pub mod Costs
pub mod CheckedInputs
pub mod Laws
