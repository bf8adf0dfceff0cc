pub mod Drafts
pub mod Tokens
