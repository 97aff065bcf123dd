-- Read FirstKeys, then Table. FlowHash stands by itself: it is what the hash by drawn numbers comes
-- to. Kept serves proofs of bodies alone.
pub mod FirstKeys
pub mod FlowHash
pub mod Kept
pub mod Table
