pub mod HeaderLemmas
pub mod BufferLemmas
pub mod HeldClauses
