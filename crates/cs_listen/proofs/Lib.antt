pub mod Concerned
mod Examples
pub mod Keeping
pub mod Merged
pub mod Numbers
pub mod Posted
pub mod Without
