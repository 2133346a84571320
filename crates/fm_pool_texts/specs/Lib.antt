pub mod Facts
pub mod TextNumbers
pub mod inner
