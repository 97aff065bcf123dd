-- Read Report, then Tables and Cause; JournalText and JournalNumbers stand by themselves.
-- JournalLine serves proofs of bodies alone.
pub mod Cause
pub mod JournalLine
pub mod JournalNumbers
pub mod JournalText
pub mod Report
pub mod Tables
