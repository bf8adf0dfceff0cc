pub mod Changing
pub mod Holding
pub mod Laws
pub mod Layouts
pub mod Lifting
pub mod Naming
pub mod Shapes
pub mod Unbroken
