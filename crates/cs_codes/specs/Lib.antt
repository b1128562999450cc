pub mod Codes
pub mod Kept
pub mod Kinds
pub mod Laws
