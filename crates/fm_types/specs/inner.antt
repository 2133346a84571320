-- What only serves the proofs.
pub mod Pieces
pub mod Places
