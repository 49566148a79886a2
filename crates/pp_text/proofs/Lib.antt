pub mod Arguments
pub mod Objects
pub mod Shapes
