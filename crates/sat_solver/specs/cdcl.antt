pub mod Ending
pub mod Faults
pub mod StepEffects
pub mod Joint
pub mod Learning
pub mod Rounds
pub mod Showing
pub mod Iterations
