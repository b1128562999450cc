pub mod Each
pub mod Over
pub mod Parted
pub mod Windows
