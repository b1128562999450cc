mod Digits
mod Renewing
pub mod Behinds
pub mod Brought
pub mod Coding
pub mod Marked
pub mod Nearing
pub mod Newly
pub mod Places
pub mod Recoding
pub mod Sharing
