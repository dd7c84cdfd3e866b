pub mod Shown
pub mod Cursors
pub mod Core
pub mod Events
pub mod Leaving
