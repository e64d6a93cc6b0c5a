pub mod values
pub mod dimacs
pub mod steps
pub mod text
pub mod script
pub mod device
