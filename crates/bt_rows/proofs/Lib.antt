pub mod Betweens
pub mod Building
pub mod Held
pub mod Ordered
pub mod Standing
