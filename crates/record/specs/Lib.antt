pub mod Layout
pub mod Headers
pub mod Entries
pub mod Searches
pub mod Paths
pub mod Steps
