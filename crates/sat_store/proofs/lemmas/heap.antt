pub mod OrderLemmas
pub mod FlagLemmas
pub mod QueueLemmas
pub mod MoveLemmas
