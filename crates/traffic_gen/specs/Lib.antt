-- Read Draw, Packet and Traffic, in this order, then Source, Info and Capture. Upcoming serves
-- proofs of bodies alone.
pub mod Capture
pub mod Draw
pub mod Info
pub mod Packet
pub mod Source
pub mod Traffic
pub mod Upcoming
