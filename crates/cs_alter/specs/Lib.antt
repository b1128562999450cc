pub mod Alterations
pub mod Inserted
pub mod Insertions
pub mod Within
