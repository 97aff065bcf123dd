mod Captures
mod Fields
mod Giving
mod Making
mod Records
