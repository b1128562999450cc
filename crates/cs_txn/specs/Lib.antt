pub mod Commit
pub mod Install
pub mod Laws
pub mod Mutated
pub mod Refused
pub mod View
pub mod Visits
pub mod Within
