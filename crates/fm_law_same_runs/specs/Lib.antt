pub mod Beside
pub mod Renaming
pub mod Programs
pub mod Paces
pub mod Laws
