pub mod Fulls
pub mod Looking
pub mod Puts
