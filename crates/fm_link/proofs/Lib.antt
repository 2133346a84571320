pub mod ClassSteps
pub mod MainMethods
pub mod Phases
pub mod ProgramMade
