-- What only serves the proofs.
pub mod ParentTable
pub mod ListTables
pub mod InterfaceRounds
pub mod NamedParents
pub mod Hierarchy
