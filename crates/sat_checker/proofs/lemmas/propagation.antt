pub mod Greedy
pub mod Denied
pub mod Soundness
pub mod Walking
pub mod Members
pub mod InRoom
pub mod Looking
