pub mod Copying
pub mod Failing
pub mod PrintedVerdicts
pub mod Requests
pub mod Words
pub mod Results
pub mod WrittenRuns
