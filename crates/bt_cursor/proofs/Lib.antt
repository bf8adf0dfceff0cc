pub mod Lookings
pub mod Movings
pub mod Placings
pub mod Settings
