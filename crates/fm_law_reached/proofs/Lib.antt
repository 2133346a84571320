mod ActsHold
mod MadeTypes
mod Covered
mod Rows
mod Goes
mod Steps
mod Openings
pub mod Narrowed
mod Within
pub mod Closed
