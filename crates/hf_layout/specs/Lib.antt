pub mod Frees
pub mod Laws
pub mod Layout
