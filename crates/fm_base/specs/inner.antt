-- What only serves the proofs: how rows and graphs lie in the memory of the program.
pub mod Rows
pub mod Graph
pub mod Texts
