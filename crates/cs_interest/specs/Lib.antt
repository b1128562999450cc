pub mod Changed
pub mod Interest
pub mod Laws
pub mod Limits
pub mod Narrow
