-- Read Bits, Toeplitz, Packet and Bucket, in this order. Tables serves proofs of bodies alone.
pub mod Bits
pub mod Bucket
pub mod Packet
pub mod Tables
pub mod Toeplitz
