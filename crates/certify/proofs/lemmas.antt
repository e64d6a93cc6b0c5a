pub mod laws
pub mod confirm
pub mod run
pub mod answers
pub mod program
pub mod script
pub mod judge
