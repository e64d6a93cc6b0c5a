pub mod BumpingLemmas
pub mod GlueLemmas
pub mod GradingLemmas
pub mod InvolvedLemmas
pub mod ReducingLemmas
