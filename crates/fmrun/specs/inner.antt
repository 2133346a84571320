pub mod Fails
pub mod Running
