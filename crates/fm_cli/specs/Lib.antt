pub mod Encoding
pub mod Line
pub mod Outside
pub mod Printed
pub mod CommandRefusal
pub mod Status
pub mod Words
