pub mod Gifts
pub mod Items
pub mod Members
pub mod Puts
pub mod Removals
