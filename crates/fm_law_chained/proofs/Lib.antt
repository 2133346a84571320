pub mod Links
pub mod Walked
pub mod ChainedAreas
pub mod FreedChains
pub mod CalledSteps
