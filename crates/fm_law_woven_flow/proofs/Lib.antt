pub mod RoleLists
pub mod LaidRoles
pub mod NewItems
pub mod LaidItems
pub mod FollowsOn
pub mod Caught
pub mod Reached
pub mod Standing
