pub mod Asked
pub mod Chains
pub mod Hidden
pub mod Names
pub mod Quiet
pub mod Shown
