-- Read Threaded, which contracts speak of. Opening, Parties and PartyLists serve proofs of bodies
-- alone.
pub mod Threaded
pub mod PartyLists
pub mod Opening
pub mod Parties
