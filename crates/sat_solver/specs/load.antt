pub mod Alike
pub mod Faults
pub mod Loaded
pub mod Literals
pub mod Restart
pub mod Clauses
pub mod Assumed
