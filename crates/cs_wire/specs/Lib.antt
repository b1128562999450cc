pub mod Blank
pub mod Commands
pub mod Moments
pub mod Rows
pub mod View
pub mod Within
