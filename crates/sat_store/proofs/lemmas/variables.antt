pub mod MapLemmas
pub mod CodeLemmas
