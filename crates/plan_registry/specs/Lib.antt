pub mod Registries
pub mod Samples
