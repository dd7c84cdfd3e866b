pub mod Places
pub mod Orphans
pub mod Repeats
pub mod Masks
pub mod Checks
