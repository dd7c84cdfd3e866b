pub mod Quiet
pub mod Stays
pub mod Pages
pub mod Asked
pub mod Stands
pub mod Counts
pub mod Uses
mod Rows
