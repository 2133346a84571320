pub mod LinkedPrograms
pub mod UntypedLemmas
pub mod Trees
