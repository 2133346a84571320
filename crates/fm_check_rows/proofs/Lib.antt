pub mod WordLemmas
pub mod PieceLemmas
pub mod MarkLemmas
pub mod NameLemmas
pub mod UseLemmas
