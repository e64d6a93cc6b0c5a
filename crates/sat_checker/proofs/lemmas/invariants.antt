pub mod Counted
pub mod Each
pub mod Proper
pub mod Known
pub mod Pending
pub mod Last
pub mod Stored
pub mod FewBytes
