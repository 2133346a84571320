-- What only serves the proofs: how code walks over a stack, and the table by groups.
pub mod Pieces
pub mod Groups
pub mod Replaced
