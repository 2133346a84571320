pub mod Chain
pub mod Called
pub mod Laws
