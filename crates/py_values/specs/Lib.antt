pub mod Exceptions
pub mod Builtins
pub mod Kinds
