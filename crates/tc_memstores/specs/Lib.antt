pub mod Cells
pub mod Sides
