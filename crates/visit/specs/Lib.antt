pub mod Visits
pub mod Crossings
