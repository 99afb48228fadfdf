pub mod Timely
pub mod Sums
pub mod Lists
pub mod Straight
pub mod Circle
pub mod Listed
pub mod Marked
pub mod Carried
