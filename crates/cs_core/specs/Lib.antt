pub mod Core
pub mod Does
pub mod Laws
pub mod Visits
