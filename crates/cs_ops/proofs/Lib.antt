pub mod CodePoints
pub mod Found
pub mod Merged
pub mod Ranked
pub mod Trees
