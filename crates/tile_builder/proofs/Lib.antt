pub mod Cuts
pub mod Below
pub mod Nodes
pub mod Alike
pub mod Inner
pub mod Made
pub mod Putting
pub mod Steps
pub mod Holding
mod Rows
