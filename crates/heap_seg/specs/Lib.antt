pub mod Things
pub mod Globals
pub mod Defaults
pub mod Segments
pub mod Modes
