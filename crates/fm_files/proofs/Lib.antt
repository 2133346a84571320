pub mod FolderLemmas
pub mod MemoryLemmas
pub mod NamesLemmas
pub mod SinkLemmas
pub mod SureLemmas
pub mod TallyLemmas
pub mod TransferLemmas
pub mod Walks
