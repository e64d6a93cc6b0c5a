pub mod Clauses
pub mod Deleting
pub mod Orderly
pub mod OrderlySteps
pub mod Meaning
pub mod Answers
pub mod Names
