pub mod Entries
pub mod Keeping
pub mod Queues
pub mod Sizes
pub mod Totals
