pub mod Edges
pub mod Walks
pub mod Values
pub mod Sums
pub mod Kinds
pub mod Ways
pub mod Unions
