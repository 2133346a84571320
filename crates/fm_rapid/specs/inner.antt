-- What only serves the proofs: what programs the walk over methods is done over, and its states.
pub mod Followed
pub mod Walks
