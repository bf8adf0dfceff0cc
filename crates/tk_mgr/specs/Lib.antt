pub mod Asking
pub mod Drilling
pub mod Drills
pub mod Errors
pub mod Managing
pub mod Showing
pub mod Tasks
