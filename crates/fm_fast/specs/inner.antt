-- What only serves the proofs.
pub mod Gives
pub mod Entries
