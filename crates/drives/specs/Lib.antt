pub mod Fleets
pub mod Recordings
