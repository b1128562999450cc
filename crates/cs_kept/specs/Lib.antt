pub mod Evaluated
pub mod Fits
pub mod Followed
pub mod Found
pub mod Kept
pub mod Mapped
pub mod Rows
