pub mod inner
pub mod Values
pub mod Arguments
pub mod ClassFiles
pub mod ProgramText
pub mod AuditRequest
pub mod FreemeRequest
pub mod FmrunRequest
