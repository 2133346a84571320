-- What only serves the proofs.
pub mod Judged
pub mod Made
pub mod MainClass
