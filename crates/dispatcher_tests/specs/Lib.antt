-- Rig says how a dispatcher that a test holds stands to its ends. Tests alone use it.
pub mod Rig
