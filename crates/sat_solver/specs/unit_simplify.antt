pub mod AfterUnits
pub mod StrengtheningSteps
pub mod Strengthening
pub mod EmptyTrail
pub mod FreedIndices
pub mod FreedVars
pub mod ClauseStatus
pub mod Passes
