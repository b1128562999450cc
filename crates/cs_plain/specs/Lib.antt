pub mod Forms
pub mod Holds
pub mod Keyed
pub mod Laws
pub mod Plain
pub mod Predicates
pub mod Truths
