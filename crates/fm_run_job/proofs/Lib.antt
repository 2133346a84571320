pub mod EndLemmas
pub mod Opened
