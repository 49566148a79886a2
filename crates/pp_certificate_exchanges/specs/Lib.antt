pub mod Exchanges
pub mod Laws
pub mod Faults
pub mod Passes
pub mod Towers
