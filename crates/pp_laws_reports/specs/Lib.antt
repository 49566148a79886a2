pub mod Readable
pub mod Defined
