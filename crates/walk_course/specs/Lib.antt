pub mod Spread
pub mod Walk
pub mod Course
pub mod Laws
pub mod Scenes
