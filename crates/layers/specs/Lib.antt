pub mod Holding
pub mod HoldingBack
pub mod Sections
pub mod Benches
