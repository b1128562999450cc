pub mod Choosing
pub mod Fits
pub mod Starts
pub mod Stops
pub mod Weight
