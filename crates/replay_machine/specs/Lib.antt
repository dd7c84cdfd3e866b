pub mod Machine
pub mod Asking
pub mod Said
pub mod Turns
pub mod Runs
pub mod Used
pub mod Laws
