pub mod Ascending
pub mod Row
