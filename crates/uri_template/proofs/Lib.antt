pub mod Variables
pub mod Appending
pub mod Axes
pub mod Lengths
