mod Found
pub mod Simples
mod Bounded
mod Orders
