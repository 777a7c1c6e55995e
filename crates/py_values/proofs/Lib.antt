pub mod Below
pub mod Above
