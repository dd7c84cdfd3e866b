pub mod Heads
pub mod Inner
pub mod Laws
pub mod Limits
pub mod Replies
pub mod Targets
