mod Elements
pub mod Coded
pub mod Found
pub mod Refreshing
pub mod Sames
mod Settled
pub mod Sharing
pub mod Windowed
