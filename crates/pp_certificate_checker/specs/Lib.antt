pub mod Certificates
pub mod Own
pub mod Laws
pub mod Checking
pub mod Keeping
