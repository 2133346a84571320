pub mod ConversionsLemmas
pub mod LawsLemmas
pub mod OperationsLemmas
pub mod ShiftsLemmas
pub mod TwosComplementLemmas
