pub mod States
pub mod Refusals
pub mod Taken
pub mod Listed
