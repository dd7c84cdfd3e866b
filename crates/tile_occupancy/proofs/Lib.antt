pub mod Keys
pub mod Parents
pub mod Rows
pub mod Lines
pub mod Points
pub mod Generated
pub mod Same
pub mod Exact
