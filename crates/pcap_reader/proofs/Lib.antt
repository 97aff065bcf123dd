pub mod Records
pub mod SoFar
pub mod StreamEnds
pub mod Taken
pub mod Streams
