pub mod Endings
pub mod Sets
