pub mod Gets
pub mod Steps
