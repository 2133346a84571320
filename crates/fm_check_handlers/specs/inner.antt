-- What only serves the proofs: runs of items, and what was given to handlers.
pub mod Runs
