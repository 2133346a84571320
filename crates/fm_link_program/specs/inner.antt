-- What only serves the proofs.
pub mod MemberLists
pub mod Named
pub mod Resolved
pub mod MemberInfos
pub mod Answers
pub mod Assembled
