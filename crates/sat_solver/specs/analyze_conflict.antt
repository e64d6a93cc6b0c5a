pub mod AddedState
pub mod Empowering
pub mod Derivation
pub mod Seen
pub mod Marks
pub mod Minimization
pub mod AnalysisState
