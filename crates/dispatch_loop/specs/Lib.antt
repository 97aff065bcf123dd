-- Read OptionsView, Accepted and Defaults; Packets, Intake and Stops; for a turn Terms, DispatcherState, Past,
-- Asks, Costs, DispatcherSnapshot, Tied, Decided, Lanes, Does and Rules; for a run Fresh, Stays, Steps, Borne
-- and Finished. Views and Fit say what the code's fields mean. Asked and Sends serve proofs of bodies alone.
pub mod Accepted
pub mod Defaults
pub mod OptionsView
pub mod Terms
pub mod DispatcherState
pub mod Asks
pub mod Lanes
pub mod Past
pub mod Costs
pub mod Stops
pub mod DispatcherSnapshot
pub mod Tied
pub mod Decided
pub mod Does
pub mod Rules
pub mod Stays
pub mod Views
pub mod Fit
pub mod Fresh
pub mod Finished
pub mod Sends
pub mod Asked
pub mod Packets
pub mod Intake
pub mod Steps
pub mod Borne
