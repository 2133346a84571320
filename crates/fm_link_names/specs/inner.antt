-- What only serves the proofs.
pub mod ClassNumbering
pub mod Declaring
pub mod DescriptorTypes
pub mod Files
pub mod Marks
pub mod NamedTypes
pub mod Numbering
pub mod Wanting
