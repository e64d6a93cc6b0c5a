pub mod Failures
pub mod Printing
pub mod HintPrinting
pub mod Calls
pub mod Copies
pub mod Effects
pub mod FileCalls
pub mod Program
