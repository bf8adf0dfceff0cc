pub mod Gathering
pub mod Held
pub mod Labels
pub mod Queues
pub mod Serving
pub mod Texts
