pub mod ClassFiles
pub mod FmrunRequest
pub mod ProgramText
pub mod Values
