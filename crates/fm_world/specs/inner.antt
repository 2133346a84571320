-- What only serves the proofs: how the program lies in the memory of the code, and the key of its hashes.
pub mod BuiltInTable
pub mod KnownTargets
pub mod Layers
pub mod NameKeys
pub mod Nodes
pub mod Tables
pub mod Marks
pub mod Completions
