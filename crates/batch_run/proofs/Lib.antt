pub mod Answering
pub mod Lines
pub mod Rounds
pub mod Writing
