pub mod PutLemmas
pub mod OffsetsLemmas
pub mod WritableLemmas
