pub mod Places
pub mod Refusals
pub mod Calls
