pub mod DecayLemmas
pub mod HeldLemmas
