pub mod Lines
pub mod Chained
pub mod Moves
