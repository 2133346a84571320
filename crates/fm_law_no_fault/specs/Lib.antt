pub mod Whole
pub mod Seen
pub mod Doing
pub mod Catching
pub mod CellsResolved
pub mod NoFault
pub mod Laws
