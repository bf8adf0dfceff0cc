pub mod Spoiled
pub mod Steps
