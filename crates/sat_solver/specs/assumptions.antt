pub mod FailedAssumptions
pub mod Setting
pub mod Core
