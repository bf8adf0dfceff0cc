pub mod Changes
pub mod Entries
pub mod Kept
pub mod PageKeys
pub mod Uses
