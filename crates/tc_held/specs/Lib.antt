pub mod Held
pub mod History
pub mod Laws
pub mod Lengths
pub mod Pieces
pub mod Shown
