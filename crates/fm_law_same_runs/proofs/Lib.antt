pub mod Costs
pub mod Matches
pub mod Openings
pub mod Paces
