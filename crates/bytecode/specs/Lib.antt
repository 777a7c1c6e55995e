pub mod Iterators
pub mod Callings
pub mod Scopes
pub mod Moves
pub mod Blocks
pub mod Forward
pub mod Empty
