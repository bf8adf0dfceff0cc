pub mod Changes
pub mod Lying
pub mod Marks
pub mod Reads
pub mod Slots
