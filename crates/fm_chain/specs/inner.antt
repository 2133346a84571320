-- What only serves the proofs: the state of a walk, and places in a pool.
pub mod LoopWalks
pub mod ChainPlaces
