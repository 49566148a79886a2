pub use Rattle.pp_core.specs.Trees
pub use Rattle.pp_model.specs.Body
pub mod Moves
pub mod Patterns
pub mod Positions
pub mod Walks
