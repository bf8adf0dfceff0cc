pub mod Aligned
pub mod Building
pub mod Indexing
pub mod Laying
pub mod Marking
pub mod Sectioning
pub mod Lending
