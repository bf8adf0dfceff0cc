pub mod Entries
pub mod Good
pub mod Grammar
pub mod Log
pub mod Scan
pub mod Undo
