pub mod Graph
pub mod Closure
pub mod Needs
pub mod World
pub mod Sets
pub mod Built
pub mod Imports
