pub mod Counts
pub mod Rows
pub mod Acts
pub mod Steps
pub mod Openings
pub mod Runs
