pub mod Counting
pub mod Spread
pub mod Children
pub mod Bounds
pub mod Steps
pub mod Reading
