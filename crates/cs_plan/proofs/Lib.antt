pub mod Choices
pub mod Conditions
pub mod ConstantParts
pub mod Levels
pub mod PathNames
pub mod Sets
