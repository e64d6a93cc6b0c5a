pub mod values
pub mod device
pub mod text
pub mod script
pub mod steps
pub mod dimacs
