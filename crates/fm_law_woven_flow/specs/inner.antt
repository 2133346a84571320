-- What only serves the proofs: the roles of all items, and their numbers.
pub mod RolesOf
