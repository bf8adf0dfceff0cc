pub mod Words
pub mod Numbers
pub mod Names
pub mod Options
pub mod Ranges
pub mod Commands
pub mod Seen
