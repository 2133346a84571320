pub mod LoopLemmas
pub mod NameLemmas
pub mod PoolLemmas
pub mod CodeLemmas
pub mod SpelledLemmas
