pub mod Numbering
pub mod Storing
pub mod Changes
