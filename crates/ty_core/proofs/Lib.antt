pub mod Fronts
pub mod Gathering
pub mod Getting
pub mod Texting
