pub mod Behind
pub mod Codes
pub mod Held
pub mod Hits
pub mod Looked
pub mod Near
pub mod Shares
