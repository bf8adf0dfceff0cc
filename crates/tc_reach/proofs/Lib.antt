pub mod Handed
pub mod Viewing
pub mod Written
pub mod Zeroed
