-- Read Parties, the shared objects and the dispatcher's party as contracts see them; Work and
-- WorkerParties, what a shift of a core is given and gives back; and DispatcherTurns. Lends serves
-- proofs of bodies alone.
pub mod Work
pub mod DispatcherTurns
pub mod Parties
pub mod WorkerParties
pub mod Lends
