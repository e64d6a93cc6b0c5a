pub mod Needed
pub mod Announcements
pub mod Transcripts
pub mod Promises
pub mod Following
pub mod Rows
