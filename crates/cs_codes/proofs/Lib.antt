pub mod Coded
pub mod Listed
pub mod Searched
