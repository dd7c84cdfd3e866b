pub mod Levels
pub mod Parts
pub mod Tiles
pub mod Ends
