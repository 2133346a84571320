pub mod Flows
pub mod Operands
pub mod FlowsOver
pub mod FieldPlaces
pub mod SpecialCalls
pub mod Packed
pub mod inner
