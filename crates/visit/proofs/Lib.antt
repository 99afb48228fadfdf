pub mod Picked
pub mod Entered
pub mod Few
pub mod Ordered
pub mod Times
pub mod Owned
