pub mod Firsts
pub mod Views
pub mod NamedFunctions
pub mod Written
pub mod Sets
