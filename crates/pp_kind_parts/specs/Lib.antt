pub mod Alone
pub mod Silent
pub mod laws
