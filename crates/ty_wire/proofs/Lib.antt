pub mod Answered
pub mod ExactForms
pub mod ItemLemmas
pub mod ItemLoops
pub mod Requests
pub mod Stays
pub mod UpdateTest
