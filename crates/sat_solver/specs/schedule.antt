pub mod Climbing
pub mod Counting
pub mod Gaps
pub mod Progress
pub mod Ranks
pub mod Rounds
pub mod Solving
