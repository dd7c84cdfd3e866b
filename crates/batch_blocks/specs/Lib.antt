pub mod Workers
pub mod Blocks
pub mod Replies
