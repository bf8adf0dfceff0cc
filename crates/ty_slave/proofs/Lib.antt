pub mod Looking
pub mod Worked
