-- Read Serial, Custody, Ends and Refused, which say what a run answers. LocalRun, DispatcherOf, At, Goes, Lines
-- and Sweeps tie the parties in code to it, and OneTable is the run over one table. Opening serves proofs of
-- bodies alone, and Rows, which no contract uses, tests Serial by worked rows.
pub mod Serial
pub mod Rows
pub mod Lines
pub mod LocalRun
pub mod DispatcherOf
pub mod At
pub mod Goes
pub mod Custody
pub mod Refused
pub mod OneTable
pub mod Sweeps
pub mod Opening
pub mod Ends
