pub mod Failed
pub mod Idle
pub mod MapLaws
mod Paired
pub mod RowLaws
pub mod Updating
pub mod Walked
pub mod WellKept
pub mod WellStores
