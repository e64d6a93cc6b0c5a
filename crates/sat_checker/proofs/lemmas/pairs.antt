pub mod Mixing
pub mod Order
pub mod Walks
pub mod Places
pub mod Links
pub mod Changing
