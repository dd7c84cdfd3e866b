pub mod Viewers
pub mod Replies
