pub mod Begins
pub mod Lanes
pub mod Rigs
pub mod Tables
