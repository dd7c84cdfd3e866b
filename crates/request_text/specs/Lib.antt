pub mod Fields
pub mod Found
pub mod Input
pub mod Laws
pub mod Lines
pub mod Made
