-- Read Packets and Sides, which contracts speak of.
pub mod Packets
pub mod Sides
