pub mod Roles
pub mod inner
pub mod Laws
