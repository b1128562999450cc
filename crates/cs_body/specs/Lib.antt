pub mod Body
pub mod Laws
pub mod Taken
pub mod Transaction
pub mod View
