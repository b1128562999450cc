pub mod Brought
pub mod Entries
pub mod Fits
pub mod Found
pub mod Laws
pub mod Lives
