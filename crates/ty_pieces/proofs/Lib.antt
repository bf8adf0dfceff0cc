pub mod PieceLaws
pub mod Replies
