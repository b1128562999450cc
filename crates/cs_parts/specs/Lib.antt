pub mod Brackets
pub mod Callees
pub mod Kinds
pub mod Parts
pub mod Positions
pub mod Turns
