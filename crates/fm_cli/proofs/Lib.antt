pub mod LineLemmas
pub mod OutsideLemmas
pub mod WordLemmas
pub mod PrintedLemmas
mod EncodingLemmas
