pub mod Arguments
pub mod Blanks
pub mod Drafting
pub mod Cutting
pub mod Including
pub mod Placing
pub mod Ranking
pub mod Steps
