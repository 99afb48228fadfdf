pub mod Moments
pub mod Only
pub mod Verdicts
