pub mod AnswerLemmas
pub mod ClauseLemmas
pub mod InsertedLemmas
pub mod LearningLemmas
pub mod LeftLemmas
pub mod OpenLemmas
pub mod TrailLemmas
pub mod UnitLemmas
