pub mod Exact
pub mod Answers
pub mod Programs
pub mod inner
