pub mod AtFronts
pub mod Hex
pub mod IdKeys
pub mod Runs
pub mod Written
