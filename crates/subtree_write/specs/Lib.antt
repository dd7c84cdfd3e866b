pub mod Canonical
pub mod Members
pub mod Added
pub mod Reading
