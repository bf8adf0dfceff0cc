pub mod Answers
pub mod Calls
pub mod Engines
pub mod Lists
pub mod Requests
pub mod Steps
pub mod Walking
