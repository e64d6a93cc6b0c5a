pub mod clause
pub mod prop
pub mod parts
