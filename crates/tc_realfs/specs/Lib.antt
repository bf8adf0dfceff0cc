pub mod Changes
pub mod Gathering
pub mod Labelled
pub mod Paging
