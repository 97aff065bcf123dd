-- Read Faults and Written, which the traits speak of, then Memory and Fold, the ends in memory.
-- Piece, over Hex, says the parts of a line. Contracts speak of all of them.
pub mod Faults
pub mod Fold
pub mod Hex
pub mod Memory
pub mod Piece
pub mod Written
