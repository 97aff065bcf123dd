-- Read Wire, Ipv4, Ipv6 and Frame, in this order. Key, the order of keys, and KeyText, their texts,
-- stand by themselves; KeyOrder proves that the derived order is that of Key. Found serves proofs
-- of bodies alone.
pub mod Found
pub mod Frame
pub mod Ipv4
pub mod Ipv6
pub mod Key
pub mod KeyOrder
pub mod KeyText
pub mod Wire
