pub mod EntryPlaces
pub mod Failures
pub mod FreePlaces
pub mod Reading
pub mod Rules
