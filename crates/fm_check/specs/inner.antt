-- What only serves the proofs: steps of the walk over items, and what its end says.
pub mod Steps
pub mod Judgements
