mod Applied
mod Below
mod Deep
mod Examples
pub mod Fixed
mod Giving
mod Inserting
mod Kept
mod Missing
mod Named
mod Reading
mod Seeing
pub mod Stamped
mod Worked
