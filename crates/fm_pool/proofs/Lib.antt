pub mod EntriesLemmas
pub mod EntriesInTurn
pub mod GrownPool
pub mod MissingLemmas
pub mod FreeEntriesLemmas
pub mod FreeEntriesAdded
pub mod RulesLemmas
pub mod ReadingLemmas
