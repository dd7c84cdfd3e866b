pub mod Made
pub mod Holds
pub mod Laws
