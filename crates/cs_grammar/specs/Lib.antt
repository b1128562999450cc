pub mod Spells
pub mod Reading
pub mod View
pub mod Answers
pub mod Parsing
