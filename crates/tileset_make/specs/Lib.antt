pub mod Chosen
pub mod Ranges
pub mod Recipes
