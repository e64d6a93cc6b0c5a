pub mod Turns
pub mod AnyOrder
pub mod Named
