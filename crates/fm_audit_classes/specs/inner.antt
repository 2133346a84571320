pub mod Low
pub mod Inserted
pub mod Methods
pub mod Compared
pub mod Found
pub mod Codes
pub mod Named
