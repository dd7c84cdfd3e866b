pub mod Sessions
pub mod Looks
pub mod Advances
pub mod Starts
pub mod Answers
