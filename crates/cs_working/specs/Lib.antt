pub mod Changed
pub mod Counted
pub mod Kept
pub mod Merged
pub mod Noted
pub mod Working
