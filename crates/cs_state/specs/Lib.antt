pub mod Does
pub mod State
pub mod Visits
