pub mod FixedHeads
pub mod Heads
pub mod Layout
