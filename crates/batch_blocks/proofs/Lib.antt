pub mod Workers
pub mod Cutting
pub mod Plans
pub mod Replies
mod Rows
