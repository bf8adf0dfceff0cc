mod ChosenImages
mod Emptied
mod Feeds
mod PlayedReads
pub mod Pushed
mod Taken
mod TornWrites
