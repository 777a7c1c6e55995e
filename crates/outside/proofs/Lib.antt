pub mod FilesInMemory
pub mod MapKeys
pub mod NameLists
