pub mod Parts
pub mod Audited
pub mod inner
