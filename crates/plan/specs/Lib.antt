pub mod Conflicts
pub mod Searches
pub mod Plans
