pub mod LayoutText
pub mod LayoutMembers
