pub mod Overlaid
pub mod Places
