pub mod Opening
pub mod Reach
pub mod inner
