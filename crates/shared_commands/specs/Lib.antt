pub mod Desks
pub mod Batch
pub mod Shared
