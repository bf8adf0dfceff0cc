pub mod Moving
pub mod Places
pub mod Setting
