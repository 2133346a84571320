pub mod Calls
pub mod Selections
pub mod inner
pub mod Constants
