pub mod Bridge
pub mod CheckerIsSound
pub mod Traces
