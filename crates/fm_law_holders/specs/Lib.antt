pub mod Uninitialised
pub mod NewResults
pub mod Holding
pub mod Laws
