pub mod Generated
pub mod Lines
pub mod Summary
pub mod Tally
