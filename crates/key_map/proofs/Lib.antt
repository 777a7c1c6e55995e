pub mod Lists
pub mod KeysOf
pub mod Rows
