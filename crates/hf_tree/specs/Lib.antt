pub mod Keys
pub mod Links
pub mod Listing
pub mod Rules
pub mod Standing
pub mod Trees
pub mod Views
