pub mod Found
pub mod NodeLaws
