pub mod Laws
pub mod Makes
pub mod DeadRegions
pub mod TwoMemories
pub mod Cells
