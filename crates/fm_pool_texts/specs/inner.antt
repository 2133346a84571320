pub mod Entries
pub mod NameParts
