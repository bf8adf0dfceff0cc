pub mod Effects
pub mod Entries
pub mod Moving
pub mod Packing
pub mod Streams
