pub mod Again
pub mod Recovery
pub mod Since
pub mod State
