pub mod Arithmetic
pub mod Equal
pub mod Operators
pub mod Order
pub mod Truth
