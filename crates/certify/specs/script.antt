pub mod Commands
pub mod Decided
pub mod LastChunk
pub mod LastPiece
pub mod Streaming
