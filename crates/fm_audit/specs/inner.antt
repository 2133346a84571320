-- What only serves the code and the proofs.
pub mod Holders
pub mod Frees
pub mod Listed
pub mod Checked
pub mod Kept
