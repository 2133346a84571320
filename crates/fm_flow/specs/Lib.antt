pub mod Tables
pub mod Marking
pub mod Flow
pub mod LiveRows
pub mod inner
