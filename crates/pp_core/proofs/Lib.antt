pub mod Padding
pub mod Items
pub mod Places
