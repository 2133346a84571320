pub mod Retyped
