pub mod Asked
pub mod FlowSteps
pub mod CellSteps
pub mod Likes
pub mod Packing
pub mod EntrySteps
