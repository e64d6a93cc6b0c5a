pub mod Devices
pub mod answers
pub mod confirm
pub mod run
pub mod laws
pub mod program
pub mod script
pub mod refusals
