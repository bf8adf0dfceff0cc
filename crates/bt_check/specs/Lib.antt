pub mod Collected
pub mod Keys
pub mod Leaves
pub mod Looks
pub mod ReadPages
pub mod Verdicts
pub mod Walks
