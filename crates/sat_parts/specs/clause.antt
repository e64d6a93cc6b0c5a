pub mod Orders
pub mod Stored
pub mod Db
pub mod Glue
pub mod Collected
pub mod Activity
pub mod Reduced
pub mod Filtered
