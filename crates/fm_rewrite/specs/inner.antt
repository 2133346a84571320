-- What only serves the code and the proofs: classes by what is to be done with their methods.
pub mod ByPlans
pub mod Meant
