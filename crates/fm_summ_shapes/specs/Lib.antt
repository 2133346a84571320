pub mod Analysed
