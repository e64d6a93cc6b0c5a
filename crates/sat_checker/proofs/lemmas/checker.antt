pub mod Additions
pub mod Proofs
pub mod Texts
pub mod Prefixes
