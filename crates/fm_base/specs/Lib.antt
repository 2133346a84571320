pub mod Kinds
pub mod Rows
pub mod Graph
pub mod Texts
pub mod inner
