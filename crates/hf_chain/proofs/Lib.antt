pub mod Pieces
pub mod Fronts
pub mod Descents
pub mod Paying
pub mod Differing
pub mod Filling
pub mod Settings
