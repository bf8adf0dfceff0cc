pub mod Bytes
pub mod Changes
pub mod Counted
pub mod Counting
pub mod Mapped
pub mod Seen
pub mod Sums
