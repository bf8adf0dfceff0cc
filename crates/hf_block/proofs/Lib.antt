pub mod Broken
pub mod Blocking
pub mod FreeHeads
pub mod Listing
pub mod NarrowHeads
pub mod NextBlock
pub mod Padding
