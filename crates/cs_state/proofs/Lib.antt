mod Listening
mod Noting
pub mod Replying
mod Storing
mod Tallies
mod Told
mod Transacting
pub mod Visiting
