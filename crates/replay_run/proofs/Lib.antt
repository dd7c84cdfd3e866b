pub mod Replied
pub mod Pages
pub mod Texts
pub mod Asking
pub mod Played
pub mod Ran
mod Rows
