pub mod Outcomes
pub mod Found
pub mod Laws
pub mod Fetched
pub mod Reading
