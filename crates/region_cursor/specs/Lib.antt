pub mod Cursor
pub mod Moves
pub mod Walked
pub mod Joined
pub mod Laws
