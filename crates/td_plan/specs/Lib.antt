pub mod Choices
pub mod Plans
pub mod Spans
