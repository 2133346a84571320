pub mod FreeCalls
pub mod Plans
pub mod Alike
pub mod Causes
pub mod Rewritten
pub mod RewrittenWithChains
pub mod inner
