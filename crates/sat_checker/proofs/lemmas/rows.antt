pub mod Accepted
pub mod Others
pub mod More
pub mod Meanings
