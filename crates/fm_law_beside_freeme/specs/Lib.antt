pub mod Lengths
pub mod Written
pub mod Told
pub mod Exact
