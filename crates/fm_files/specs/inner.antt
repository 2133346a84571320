pub mod Codes
pub mod Names
pub mod Noted
pub mod Past
