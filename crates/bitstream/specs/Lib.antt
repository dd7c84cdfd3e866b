pub mod Bits
pub mod Bytes
pub mod Kind
pub mod Places
pub mod Words
