pub mod Finds
pub mod Picked
