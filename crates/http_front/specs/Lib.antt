pub mod Reading
pub mod Filling
pub mod Requests
pub mod Table
pub mod Deciding
pub mod Talk
