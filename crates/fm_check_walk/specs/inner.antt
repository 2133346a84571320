-- What only serves the proofs.
pub mod Tasks
pub mod Merging
pub mod Ranks
pub mod Risen
pub mod Turns
pub mod Walks
