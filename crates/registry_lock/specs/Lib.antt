pub mod Passes
pub mod Holds
pub mod Answer
pub mod Lending
