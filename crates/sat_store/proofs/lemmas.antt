pub mod clause
pub mod levels
pub mod variables
pub mod schedule
pub mod heap
