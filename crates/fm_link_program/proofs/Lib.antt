pub mod Described
pub mod NamedSteps
pub mod MemberInfoSteps
pub mod UseSteps
pub mod AnswerSteps
pub mod ProgramSteps
pub mod TableSteps
