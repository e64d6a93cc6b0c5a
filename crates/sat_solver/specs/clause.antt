pub mod Activity
pub mod Assessed
pub mod Reduced
