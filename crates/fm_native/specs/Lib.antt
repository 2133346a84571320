pub mod Doing
pub mod Serving
pub mod Texts
pub mod inner
