pub mod Blanks
pub mod Written
