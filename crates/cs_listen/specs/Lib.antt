pub mod Events
pub mod Listeners
pub mod Posted
pub mod Told
