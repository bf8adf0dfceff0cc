mod Values
mod Reading
mod Rows
