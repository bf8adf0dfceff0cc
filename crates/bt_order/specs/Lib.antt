pub mod Ends
pub mod Keys
pub mod Laws
pub mod Numbers
pub mod Rising
pub mod Sides
pub mod Values
