pub mod Writing
pub mod Freeing
pub mod Auditing
pub mod Parts
