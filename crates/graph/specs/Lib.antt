pub mod Inputs
pub mod Between
pub mod Nets
pub mod Links
pub mod Rounds
pub mod Graphs
pub mod Verdicts
pub mod Figures
