pub mod Columns
pub mod Entries
pub mod Lacking
pub mod Parts
pub mod Reading
pub mod Rows
pub mod Written
