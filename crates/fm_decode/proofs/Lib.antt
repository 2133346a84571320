pub mod GivesLemmas
pub mod ShapesLemmas
pub mod OperandsLemmas
pub mod SwitchesLoops
pub mod SwitchesLemmas
pub mod DraftsLemmas
pub mod TargetsLemmas
