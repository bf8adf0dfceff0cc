pub mod Effects
pub mod Held
pub mod Ids
pub mod Marks
pub mod Shared
