pub mod HandlerLemmas
pub mod RunLemmas
pub mod GivingLemmas
