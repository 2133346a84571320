pub mod Headline
pub mod Taken
pub mod WholeRuns
pub mod InStep
pub mod Alike
pub mod Renamed
