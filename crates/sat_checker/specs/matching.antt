pub mod Checking
pub mod ProofChecking
pub mod Bridge
pub mod Expected
pub mod Traces
