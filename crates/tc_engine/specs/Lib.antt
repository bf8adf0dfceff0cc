pub mod Changes
pub mod Effects
pub mod Lines
pub mod Rows
pub mod Tables
