pub mod UnseenCode
pub mod Laid
pub mod WovenFrom
pub mod Doing
pub mod Kept
pub mod Reached
pub mod Runs
