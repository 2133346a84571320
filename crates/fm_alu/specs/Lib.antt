pub mod Laws
pub mod TwosComplement
pub mod Operations
pub mod Shifts
pub mod Conversions
