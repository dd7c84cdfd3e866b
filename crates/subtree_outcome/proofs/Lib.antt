pub mod Stating
pub mod Reading
pub mod Counting
pub mod Found
pub mod Orphans
pub mod Fetching
