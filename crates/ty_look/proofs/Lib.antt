pub mod FieldEnds
pub mod Ongoing
pub mod WholeEnds
