pub mod Tables
pub mod Residents
pub mod PlainStores
pub mod Words
pub mod Layouts
pub mod WordStores
