-- What only serves the code and the proofs: what is known of a method while its sites are looked
-- for.
pub mod SiteTests
pub mod PlanRows
