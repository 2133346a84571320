-- What only serves the proofs.
pub mod MemberRows
pub mod MemberTables
pub mod NearestSteps
pub mod FoundMembers
pub mod MemberSteps
pub mod Overriding
pub mod Owners
pub mod Asked
pub mod SearchStarts
