pub mod Heads
pub mod Seats
pub mod Prefixes
