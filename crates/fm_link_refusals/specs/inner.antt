pub mod Abstracts
pub mod Ancestry
pub mod Completions
pub mod GivenClasses
pub mod LeftOver
pub mod Linking
pub mod Naming
