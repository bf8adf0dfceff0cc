pub mod Filling
pub mod Lending
pub mod Meaning
pub mod Putting
pub mod Rising
