pub mod Audits
pub mod Busies
pub mod Finds
pub mod Made
pub mod Opens
pub mod Passes
