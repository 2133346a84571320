pub mod ChainedAlike
pub mod OwnPlans
pub mod ChainedSame
pub mod Collecting
pub mod LoopedHolders
pub mod BehindSites
pub mod ChainsAhead
pub mod ChainedFree
