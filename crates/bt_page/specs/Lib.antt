pub mod Keys
pub mod Limits
pub mod Pages
pub mod Spelled
