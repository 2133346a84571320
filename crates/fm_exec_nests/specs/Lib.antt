pub mod Nests
pub mod inner
