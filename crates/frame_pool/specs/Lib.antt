pub mod Finding
pub mod Frames
pub mod Moves
pub mod States
