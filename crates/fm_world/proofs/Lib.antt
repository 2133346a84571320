pub mod Example
pub mod TableLemmas
pub mod TypeTests
pub mod Told
mod Selected
pub mod OwnedMethods
pub mod ElementLemmas
pub mod OverridingLemmas
pub mod LayerLemmas
pub mod Displays
pub mod Marks
mod KnownLemmas
pub mod Acyclic
pub mod Completions
mod ClassTypes
pub mod Narrowed
