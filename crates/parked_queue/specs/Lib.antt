-- Read Parked. Chained says which cells the chains in memory hold. Lined, the line of waiting
-- buckets, serves proofs of bodies alone.
pub mod Parked
pub mod Lined
pub mod Chained
