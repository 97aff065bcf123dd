-- Read Status, Input and Run, then by mode Reports, Demo, Threads, Listing (over Stops) and Plan;
-- Answers says which of them the words ask for. Packets, Notes and Named stand by themselves. Some words in
-- these files serve proofs of bodies alone.
pub mod Answers
pub mod Demo
pub mod Input
pub mod Listing
pub mod Named
pub mod Notes
pub mod Packets
pub mod Plan
pub mod Reports
pub mod Run
pub mod Status
pub mod Stops
pub mod Threads
