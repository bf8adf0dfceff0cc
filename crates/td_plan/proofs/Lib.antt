pub mod Bounds
pub mod Comparing
pub mod Covering
pub mod Firsts
pub mod Following
pub mod Parting
pub mod Planning
