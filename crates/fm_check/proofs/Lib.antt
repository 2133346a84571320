pub mod ItemLemmas
pub mod RiseLemmas
pub mod CheckLemmas
