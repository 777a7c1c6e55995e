pub mod Keys
pub mod Hashed
pub mod KeyLaws
pub mod Order
pub mod OrderLaws
pub mod Entries
