pub mod ListLemmas
pub mod LiveLemmas
