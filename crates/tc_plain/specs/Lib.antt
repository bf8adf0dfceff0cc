pub mod Bodies
pub mod Codes
pub mod Splits
pub mod Views
