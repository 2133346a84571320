pub mod FreesAll
pub mod Chains
pub mod Exact
