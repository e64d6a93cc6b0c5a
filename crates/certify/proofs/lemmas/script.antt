pub mod Tokens
pub mod Bytes
pub mod Decided
pub mod LastChunks
pub mod LastPieces
pub mod Streaming
pub mod FewCommands
