pub mod Objects
pub mod Silent
