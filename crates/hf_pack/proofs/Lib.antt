pub mod Streaming
pub mod Moved
pub mod Renamed
pub mod Records
pub mod Numbers
