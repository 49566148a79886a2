pub mod Lines
pub mod Reading
pub mod Found
pub mod Laws
pub mod Checkings
pub mod Rechecked
pub mod Takers
