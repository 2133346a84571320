-- What only serves the proofs: how lists of edges lie in memory, and the states of the walks.
pub mod EdgeLists
pub mod Walks
pub mod Runs
pub mod LiveWalks
pub mod Sources
