-- What only serves the proofs.
pub mod InTurn
pub mod TextNumbers
pub mod TypeNumbers
pub mod Sizes
pub mod Classes
pub mod Rows
pub mod Methods
pub mod Fields
pub mod Assembled
pub mod Own
pub mod Named
pub mod DeclaredKinds
pub mod Made
pub mod Firsts
pub mod Uses
