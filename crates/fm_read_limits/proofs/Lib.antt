pub mod FloatingLemmas
pub mod LimitLemmas
pub mod MarkLemmas
pub mod SpelledLemmas
pub mod SurrogateLemmas
