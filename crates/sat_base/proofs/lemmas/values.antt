pub mod HashLemmas
pub mod FlatLemmas
pub mod TableLemmas
pub mod Decimals
