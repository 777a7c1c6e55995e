pub mod Crossing
pub mod Examples
pub mod Inverse
