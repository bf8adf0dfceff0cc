mod Limits
mod Rows
