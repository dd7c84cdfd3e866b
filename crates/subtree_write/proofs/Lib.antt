mod Rows
pub mod Mixed
pub mod Added
pub mod Encoded
pub mod ReadValues
pub mod Header
pub mod ReadRecord
pub mod Held
pub mod ReadBack
