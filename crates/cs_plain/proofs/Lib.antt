pub mod Agree
pub mod Items
pub mod Keying
pub mod Parts
pub mod Quiet
pub mod Sets
pub mod Shapes
pub mod Tested
