pub mod Causes
pub mod Counted
pub mod Depth
pub mod Spelling
pub mod Tokens
pub mod Verdict
