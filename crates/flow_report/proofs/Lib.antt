pub mod JournalLaw
pub mod JournalWords
pub mod JournalWrites
pub mod Keys
pub mod Lines
pub mod Merged
pub mod Parts
pub mod ReadJournal
mod SmallTexts
pub mod Sorted
pub mod Together
pub mod WholeRounds
pub mod Words
