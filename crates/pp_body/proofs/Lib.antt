pub mod Items
pub mod Moves
pub mod Patterns
pub mod Reaches
pub mod Shifts
pub mod Befores
pub mod Tracks
