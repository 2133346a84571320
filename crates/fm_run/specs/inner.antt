pub mod Nexts
pub mod Going
pub mod Flats
pub mod Operands
pub mod Quicks
