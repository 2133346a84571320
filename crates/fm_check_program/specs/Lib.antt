pub mod Untyped
pub mod Linked
