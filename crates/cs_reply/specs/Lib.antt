pub mod Fields
pub mod Refusal
pub mod Reply
pub mod Sorted
pub mod Stated
pub mod View
