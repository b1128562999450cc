pub mod Held
pub mod Runs
pub mod Seen
pub mod Targets
