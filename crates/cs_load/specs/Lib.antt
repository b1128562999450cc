pub mod Gathered
pub mod Loading
pub mod Reads
pub mod Refusals
pub mod Taking
