pub mod ClassNames
pub mod Declared
pub mod FloatingTypes
