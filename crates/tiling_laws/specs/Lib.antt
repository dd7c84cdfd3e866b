pub mod Index
pub mod Nodes
pub mod Order
pub mod Available
pub mod Places
