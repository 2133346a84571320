-- What the clauses of private functions cite. Nothing of it needs to be believed: the clauses of decode cite none of it.
pub mod Gives
pub mod Shapes
pub mod Operands
pub mod Switches
pub mod Drafts
pub mod Targets
