pub mod Errors
pub mod Fronts
pub mod Heads
pub mod Pieces
pub mod Rows
pub mod Walks
pub mod Written
