pub mod DescriptorsLemmas
pub mod MethodDescriptors
pub mod FactsLemmas
pub mod TextsInTurn
pub mod KeysInTurn
