pub mod Causes
pub mod Copies
pub mod Images
pub mod Lines
pub mod Script
pub mod Told
pub mod Transcript
