mod Rows
pub mod Bits
pub mod Under
pub mod Nodes
pub mod Good
pub mod Children
pub mod Outcomes
pub mod Masks
pub mod Reached
pub mod Holds
pub mod Answer
mod Premises
