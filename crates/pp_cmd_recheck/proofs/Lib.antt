pub mod Counted
pub mod CheckedInputs
pub mod Rechecking
pub mod Telling
