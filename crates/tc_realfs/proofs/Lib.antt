pub mod Dues
pub mod Showing
