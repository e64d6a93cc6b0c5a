pub mod Counting
pub mod Device
pub mod ReadRoom
pub mod Reading
pub mod Sink
pub mod Waiting
pub mod ConsumedAhead
pub mod Fed
