pub mod Expected
pub mod Headline
pub mod Script
pub mod Status
pub mod Visits
