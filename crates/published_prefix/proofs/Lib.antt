pub mod Codes
pub mod Keeps
