-- What only serves the proofs.
pub mod ClassParts
pub mod Failures
pub mod MemberRules
pub mod Head
pub mod Parts
pub mod Reading
pub mod Rules
pub mod Items
pub mod Places
pub mod ReadingCode
