pub mod Lanes
pub mod Begins
