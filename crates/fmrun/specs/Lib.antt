pub mod inner
pub mod Jobs
pub mod TopCall
pub mod Causes
pub mod Complete
pub mod Clauses
