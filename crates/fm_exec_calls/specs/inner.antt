pub mod Actions
pub mod Starting
