pub mod Asking
mod Calendar
mod Digits
pub mod Holding
mod Lengths
pub mod OneRow
