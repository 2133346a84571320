pub mod ArgumentLemmas
pub mod MatchLemmas
pub mod ClassFilesLemmas
pub mod CommandLemmas
pub mod ProgramTextLemmas
pub mod FreemeRequestLemmas
pub mod FmrunRequestLemmas
