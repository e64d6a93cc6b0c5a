pub mod AlikeLemmas
pub mod BottomLemmas
pub mod DeletedLemmas
pub mod GivenLemmas
pub mod IndexLemmas
pub mod LoadingLemmas
pub mod SharedLemmas
pub mod TakenLemmas
