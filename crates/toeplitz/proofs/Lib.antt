pub mod BitFields
pub mod Parts
pub mod Picks
pub mod Steps
pub mod Tables
