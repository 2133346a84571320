pub mod Checking
pub mod Giving
pub mod Linking
pub mod Reading
