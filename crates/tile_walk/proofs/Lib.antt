pub mod Words
pub mod Roots
pub mod Checking
pub mod Looking
