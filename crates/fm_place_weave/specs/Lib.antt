pub mod ByPlan
pub mod Conditions
pub mod Laws
pub mod ClassByPlan
pub mod ClassLaws
