pub mod Arities
