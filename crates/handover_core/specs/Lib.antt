-- Read Legal, Dispatch, State and Machine, then Promises and Runs. Sound is the invariant, over
-- Bucket, Stands and MachineDispatcher. Neighbours, Spans and Told are of further laws and of
-- layers above. Inside and Cores say what a machine in memory stands for.
pub mod Legal
pub mod Stands
pub mod Dispatch
pub mod State
pub mod Machine
pub mod MachineDispatcher
pub mod Bucket
pub mod Sound
pub mod Runs
pub mod Promises
pub mod Cores
pub mod Inside
pub mod Neighbours
pub mod Spans
pub mod Told
