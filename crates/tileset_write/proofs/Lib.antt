mod LayoutRows
pub mod LayoutReads
pub mod LayoutStated
pub mod LayoutMade
pub mod LayoutKept
pub mod LayoutShort
