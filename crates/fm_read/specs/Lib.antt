pub mod inner
pub mod Code
