-- Read Views, Tables and JournalView; Tries, Story, Rounds, Due, Outcomes and Lawful; then
-- JournalFacts, which says Lawful sentence by sentence, and Judge, which is Lawful as a test. Owner
-- and Stints stand on Tries and Story; Each and Buckets stand by themselves.
pub mod Buckets
pub mod Due
pub mod Each
pub mod JournalFacts
pub mod JournalView
pub mod Judge
pub mod Lawful
pub mod Outcomes
pub mod Owner
pub mod Rounds
pub mod Stints
pub mod Story
pub mod Tables
pub mod Tries
pub mod Views
